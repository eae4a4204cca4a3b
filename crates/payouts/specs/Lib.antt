pub mod OnTables
