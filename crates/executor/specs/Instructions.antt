-- All instructions of a code.
use Rattle.std.specs.Prelude.{ℕ, ◌≤◌, ◌≡◌, Bool, true, false, List, length}
use Rattle.std.proofs.Math.Option.{Option, none, some}
use Rattle.base.specs.Limits.{header_length}
use Rattle.bytecode.specs.Run.{execute_all}
use Rattle.bytecode.specs.Ranges.{Range, behind}
use Rattle.bytecode.specs.declared.Version.{Version}
use Rattle.bytecode.specs.declared.Version.TheVariants.{V1, V2}
use Rattle.bytecode.specs.Code.{Listed, readable, argument_words, read_instructions}
use Rattle.base.specs.Lists.{word_at}
use Rattle.value.specs.Typed.{Canonical}

-- the version, by whether its instructions carry their result's address
abbrev pub version_by : Bool → Version
version_by false = V1
version_by true = V2

-- every word that an instruction may read
abbrev pub CanonicalReads : Version → List Range → List ℕ → Type 0
CanonicalReads v written m = (a : ℕ) → readable v written a ≡ true → Canonical (word_at m a)

-- the words after the instructions that were read
unfoldable pub after_all : Option Listed → List ℕ → List ℕ
after_all none m = m
after_all (some l) m = execute_all l.instructions m

-- `count` instructions are read, from behind the header on; their words have room in m, and the first `first` words, the arguments, are canonical
pub record Instructions (v : Version) (s : List ℕ) (count first : ℕ) (m : List ℕ) : Type 0 where
  pub listed : Listed
  pub reads : read_instructions v count s header_length (argument_words first) ≡ some listed
  pub room : behind listed.written ≤ length m
  pub canonical : CanonicalReads v (argument_words first) m
