-- What is so of every format that there is.
use Prim.Native.Nat.{ℕ, zero, suc, ◌+◌, ◌-◌, ◌^◌, ◌≤◌, ◌<◌}
use mathlib.Core.Path.{◌≡◌, ◌∙◌}
use mathlib.Core.Bool.{true, ◌&&◌}
use mathlib.Core.List.{List}
use native.Mathlib.Omega.{arith}
use lib.Dec.{leb}
use lib.ListN.{length}
use borrow.Author.Tests.{leb-true, le-leb}
use Rattle.base.specs.Limits.{port_limit, node_limit, table_limit}
use Rattle.base.specs.Bytes.{byte, u16}
use Rattle.base.specs.Outcome.{ok, Part}
use Rattle.base.proofs.Bools.{and-inv, and_both}
use Rattle.base.proofs.Outcomes.{took, takes, passed, passes}
use Rattle.base.proofs.Stands.{little}
use Rattle.graph.specs.Graph.{Function}
use Rattle.graph.specs.Format.{Format, format_of}
use Rattle.graph.specs.Read.{in_range, function, functions}
use Rattle.graph.specs.Written.{Written}

-- a format whose length field takes the bytes from 6 up to the functions
pub record Plain (format : Format) : Type 0 where
  pub version : format.version < 65536
  pub header : 8 ≤ format.header
  pub limit : format.node_limit < 65536
  pub size : (s : List ℕ) → format.size s ≡ little s (format.header - 6) 6

module _ (s : List ℕ) where
  pub plain_of : Plain (format_of s)
  unfolding format_of
  plain_of = record { version = omega arith; header = omega arith; limit = omega arith; size = λ s. omega arith }

  -- a function has no more nodes than there is room for, a table no more bytes, and a place fits four bytes
  pub nodes-held : (format_of s).node_limit ≤ node_limit
  unfolding format_of
  nodes-held = omega arith

  pub table-held : (fs : List Function) → Written (format_of s) s fs → length s < table_limit
  unfolding format_of
  table-held fs w = w.size

  pub places-held : 256 ^ ((format_of s).header - 6) ≤ 2 ^ 32
  unfolding format_of
  places-held = omega arith

-- ---- what is read under a limit is read under a higher one

module _ (low high : ℕ) (below : low ≤ high) (s : List ℕ) where
  range-within : (id ins outs n : ℕ) → in_range low id ins outs n ≡ true → in_range high id ins outs n ≡ true
  range-within id ins outs n e =
      let others = leb 1 id && leb ins port_limit && (leb 1 outs && leb outs port_limit) in
      let (a, b) = and-inv others (leb n low) e in
      let l = leb-true n low b in
      and_both others (leb n high) a (le-leb n high (omega arith))

  function-within : (at : ℕ) (x : Part Function) → function low s at ≡ ok x → function high s at ≡ ok x
  function-within at x e =
      let (t, e1) = passed _ _ _ _ _ e in
      let (u, e2) = passed _ _ _ _ _ e1 in
      passes _ 5 at _ t ∙ (passes _ 6 at _ (range-within (u16 s at) (byte s (at + 2)) (byte s (at + 3)) (u16 s (at + 4)) u) ∙ e2)

  pub functions-within : (n at : ℕ) (p : Part (List Function)) → functions low n s at ≡ ok p → functions high n s at ≡ ok p
  functions-within zero at p e = e
  functions-within (suc n) at p e =
      let (x, ex, e1) = took _ _ _ e in
      let (r, er, e2) = took _ _ _ e1 in
      takes _ _ x (function-within at x ex) ∙ (takes _ _ r (functions-within n x.next r er) ∙ e2)
