-- Grid records one after another: their places, and what their tests tell.
pub mod Grid
pub mod GridPlaces
pub mod Products
