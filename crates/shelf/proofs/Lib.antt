mod Shelvings
mod Tables
