-- Laws   what a directory holds: nothing, one entry more; the search in it
pub mod Laws
