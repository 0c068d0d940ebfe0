pub mod Courses
