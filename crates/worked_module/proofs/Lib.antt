mod Foreign
mod Opaque
