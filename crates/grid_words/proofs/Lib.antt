mod Asking
mod Added
mod Getters
mod Gathered
