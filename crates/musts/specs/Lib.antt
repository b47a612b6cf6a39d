pub mod Musts
