pub mod FakeFacts
