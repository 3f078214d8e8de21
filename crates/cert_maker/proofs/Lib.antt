mod Lacks
mod GivenBack
