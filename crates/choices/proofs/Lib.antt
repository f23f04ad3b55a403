pub mod ChoicesLaws
