mod Lifting
mod Lent
