-- The format of a table version.
use Rattle.std.specs.Prelude.{ℕ, List}
use Rattle.base.specs.Bytes.{u16}
use Rattle.base.specs.Limits as Limits

-- what a table version says: its number, the bytes of its header, its length field, and the most nodes of a function
pub record Format : Type 0 where
  pub version : ℕ
  pub header : ℕ
  pub size : List ℕ → ℕ
  pub node_limit : ℕ

abbrev pub version1 : Format
version1 = record { version = 1; header = 8; size = λ s. u16 s 6; node_limit = Limits.node_limit }

-- the format of a table: there is one
unfoldable pub format_of : List ℕ → Format
format_of s = version1
