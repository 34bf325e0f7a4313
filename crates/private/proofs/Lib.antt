mod Calls
mod Counting
mod Finding
mod Keeps
mod Made
mod Pages
mod Worlds
