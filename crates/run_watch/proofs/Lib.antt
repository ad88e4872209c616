mod ItemClosings
mod Shown
