pub mod Lists
mod Turns
