mod Among
mod Charging
mod Inside
mod Keeping
mod Places
mod Reducing
mod Weighed
