mod Carried
mod Putting
mod Reading
mod Values
