mod Behind
mod BookLaws
mod Segments
