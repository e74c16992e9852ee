mod Among
mod Table
