-- Following slots from node to node, and loops.
use Rattle.std.specs.Prelude.{ℕ, zero, suc, ◌≡◌, Bool, true, ◌&&◌, ◌||◌, List, eqb, ltb, Option}
use Rattle.order.specs.Indices.{first_in, any_of, slot}
use Rattle.base.specs.Limits.{operand_limit}

-- j is a node that a slot of node i holds
unfoldable pub reads_index : List ℕ → ℕ → ℕ → ℕ → Bool
reads_index ts n i j = ltb j n && any_of (λ s. eqb (slot ts i s) j) 0 operand_limit

-- following slots from i leads to j
pub data Path (ts : List ℕ) (n : ℕ) : ℕ → ℕ → Type 0 where
  one : {i j : ℕ} → reads_index ts n i j ≡ true → Path ts n i j
  more : {i k j : ℕ} → reads_index ts n i k ≡ true → Path ts n k j → Path ts n i j

-- the same as a test: following slots from i leads to j by way of the m nodes from k on alone
unfoldable pub via : List ℕ → ℕ → ℕ → ℕ → ℕ → ℕ → Bool
via ts n k zero i j = reads_index ts n i j
via ts n k (suc m) i j = via ts n (suc k) m i j || (via ts n (suc k) m i k && via ts n (suc k) m k j)

-- following slots from i returns to i
abbrev pub on_loop : List ℕ → ℕ → ℕ → Bool
on_loop ts n i = via ts n 0 n i i

-- the first node on a loop, if there is one
unfoldable pub first_on_loop : List ℕ → ℕ → Option ℕ
first_on_loop ts n = first_in (on_loop ts n) 0 n
