pub mod TripLaws
