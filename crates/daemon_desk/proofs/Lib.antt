mod Variables
mod Services
mod Supplies
