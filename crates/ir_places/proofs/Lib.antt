mod Lists
mod Plain
