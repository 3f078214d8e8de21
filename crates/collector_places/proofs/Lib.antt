mod WordPlaces
mod CountLemmas
mod PassLemmas
mod Moves
mod Looks
mod Spotted
mod WordsThere
