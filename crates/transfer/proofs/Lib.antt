mod Params
mod Each
