pub mod FillingLemmas
