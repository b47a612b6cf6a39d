-- Clients: a client ID, written in each of its forms.
pub mod Clients
