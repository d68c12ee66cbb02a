pub mod ServerText
