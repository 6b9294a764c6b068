mod Comparing
mod Copying
mod Retrying
mod Slashes
