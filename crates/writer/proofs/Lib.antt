mod Parts
mod Laws
mod Checking
