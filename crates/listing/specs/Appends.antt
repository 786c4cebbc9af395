-- What is added to the text.
use Rattle.std.specs.Prelude.{ℕ, ◌+◌, ◌≡◌, List, length, Option, Some, None}
use Rattle.std.proofs.lemmas.List.Edits.{sets}
use Rattle.lowering.specs.Listing.{decimal}
use Rattle.listing.specs.declared.Text.{Text}

-- bytes written behind the text, and nothing else
pub record Appends (entry : Text) (xs : List ℕ) (exit : Text) : Type 0 where
  pub same_buffer : exit.bytes.ghost_name ≡ entry.bytes.ghost_name
  pub written : exit.bytes.now ≡ sets entry.bytes.now entry.length xs
  pub end : exit.length ≡ entry.length + length xs

-- a number, or other bytes where there is none to show
abbrev pub shown : Option ℕ → List ℕ → List ℕ
shown (Some n) other = decimal n
shown None other = other
