-- A walk along slots: the nodes that were seen, in the order in which they were.
use Rattle.std.specs.Prelude.{ℕ, zero, suc, ◌+◌, Bool, true, not, ◌&&◌, cond, List, [], ◌∷◌, ltb, set}
use Rattle.order.specs.Indices.{slot, marked}

-- marks of the nodes seen, and a queue of them that ends before `tail`
pub record Walk : Type 0 where
  pub seen : List Bool
  pub queue : List ℕ
  pub tail : ℕ

abbrev pub walk : List Bool → List ℕ → ℕ → Walk
walk seen queue tail = record { seen = seen; queue = queue; tail = tail }

-- a node that was not seen goes to the queue's end
abbrev pub visit : ℕ → ℕ → Walk → Walk
visit n v w =
    cond (ltb v n && not (marked w.seen v)) (walk (set w.seen v true) (set w.queue w.tail v) (w.tail + 1)) w

-- the k slots of node i from j on
unfoldable pub visit_from : List ℕ → ℕ → ℕ → ℕ → ℕ → Walk → Walk
visit_from ts n i j zero w = w
visit_from ts n i j (suc k) w = visit_from ts n i (suc j) k (visit n (slot ts i j) w)

-- how many marks are not set
abbrev pub unmarked : List Bool → ℕ
unmarked [] = 0
unmarked (m ∷ ms) = cond m (unmarked ms) (suc (unmarked ms))
