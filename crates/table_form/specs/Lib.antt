pub mod FormAs
