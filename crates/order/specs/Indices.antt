-- A function's nodes by their indices, and the order of them. `ts` has `operand_limit` slots for each node: the indices of the
-- nodes that it reads. A slot that holds n or more stands for no node. n is the node count.
use Rattle.std.specs.Prelude.{ℕ, zero, suc, ◌+◌, ◌*◌, Bool, true, false, not, ◌&&◌, ◌||◌, cond, List, [], ◌∷◌, leb, ltb, get_or, ◌-◌, Option, Some, None}
use Rattle.base.specs.Lists.{member}
use Rattle.base.specs.Limits.{operand_limit}

-- ---- some of the k numbers from i on

-- the first that passes, or i + k where none does
unfoldable pub first_of : (ℕ → Bool) → ℕ → ℕ → ℕ
first_of p i zero = i
first_of p i (suc k) = cond (p i) i (first_of p (suc i) k)

-- the first from i up to n that passes, if there is one
abbrev pub first_in : (ℕ → Bool) → ℕ → ℕ → Option ℕ
first_in p i n = let f = first_of p i (n - i) in cond (ltb f n) (Some f) None

-- each passes
unfoldable pub all_of : (ℕ → Bool) → ℕ → ℕ → Bool
all_of p i zero = true
all_of p i (suc k) = p i && all_of p (suc i) k

-- one passes
unfoldable pub any_of : (ℕ → Bool) → ℕ → ℕ → Bool
any_of p i zero = false
any_of p i (suc k) = p i || any_of p (suc i) k

-- ---- the order

-- slot j of node i
abbrev pub slot : List ℕ → ℕ → ℕ → ℕ
slot ts i j = get_or ts (operand_limit * i + j) 0

-- no node, or one that is done
abbrev pub settled : ℕ → (ℕ → Bool) → ℕ → Bool
settled n done v = leb n v || done v

-- all that node i reads is done
abbrev pub ready : List ℕ → ℕ → (ℕ → Bool) → ℕ → Bool
ready ts n done i = all_of (λ j. settled n done (slot ts i j)) 0 operand_limit

-- the first node that node i waits for, if there is one
abbrev pub waits : List ℕ → ℕ → (ℕ → Bool) → ℕ → Option ℕ
waits ts n done i = let j = first_of (λ j. not (settled n done (slot ts i j))) 0 operand_limit in cond (ltb j operand_limit) (Some (slot ts i j)) None

-- not done, and ready
abbrev pub eligible : List ℕ → ℕ → (ℕ → Bool) → ℕ → Bool
eligible ts n done i = not (done i) && ready ts n done i

-- the first such node, or n
abbrev pub next : List ℕ → ℕ → (ℕ → Bool) → ℕ
next ts n done = first_of (eligible ts n done) 0 n

-- at most k nodes more, where those of `done` are done
unfoldable pub order_from : List ℕ → ℕ → ℕ → List ℕ → List ℕ
order_from ts n zero done = []
order_from ts n (suc k) done = let i = next ts n (λ v. member v done) in cond (ltb i n) (i ∷ order_from ts n k (i ∷ done)) []

-- always the first node not yet done whose slots are all done; it ends where there is none
unfoldable pub index_order : List ℕ → ℕ → List ℕ
index_order ts n = order_from ts n n []

-- the nodes that are marked
abbrev pub marked : List Bool → ℕ → Bool
marked ms v = get_or ms v false
