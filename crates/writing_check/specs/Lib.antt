pub mod Producible
