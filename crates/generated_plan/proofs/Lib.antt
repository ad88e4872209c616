mod Numbers
mod Further
