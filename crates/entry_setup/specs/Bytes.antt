-- The bytes that judging's tables are made of.
use Rattle.std.specs.Prelude.{ℕ, List}
use Rattle.entry_setup.specs.declared.Tables.{Tables}

-- the bytes of the certificate that the tables are made of
abbrev pub bytes_of : Tables → List ℕ
bytes_of tables = tables.certificate.now.bytes.now
