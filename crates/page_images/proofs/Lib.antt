pub mod ImagesLaws
