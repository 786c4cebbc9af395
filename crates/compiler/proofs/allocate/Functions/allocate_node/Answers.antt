use Prim.Native.Nat.{ℕ, ◌+◌, ◌*◌, ◌≤◌, ◌<◌}
use mathlib.Core.Path.{◌≡◌, refl, sym, ap, ◌∙◌}
use mathlib.Core.List.{List}
use native.Mathlib.Omega.{arith}
use lib.ListN.{length, get_or}
use lib.Seq.{sets}
use Rattle.base.specs.Bytes.{byte}
use Rattle.ports.specs.Ports as PortList
use Rattle.reader.specs.Layout.{output_count}
use Rattle.reader.proofs.Passed.{head-fits, function-fits}
use Rattle.sums.specs.Position.{place_of, position_of, Started}
use Rattle.sums.proofs.Accepted.{few-ports}
use Rattle.sums.proofs.Nodes.{row-narrow, form-is}
use Rattle.sums.proofs.Summing as Summing
use Rattle.compiler.specs.Units.{units_in}
use Rattle.compiler.proofs.Inlining.{count-is}
use Rattle.compiler.proofs.Units.{callee-units, no-units, limit-bound, held-exact}
use Rattle.compiler.proofs.NodePorts.{call-codes, no-codes, plain-codes}
use Rattle.compiler.proofs.allocate.Functions.allocate_node.Goals as goal

-- a function before k: where it stands, and how many outputs it has
module _ {s starts : List ℕ} {k g : ℕ} (b : Started s starts k) (lt : g < k) where
  place : (get_or starts g 0 ≡ place_of s g) × (place_of s g + 6 ≤ length s)
  place = (b.places g lt, function-fits s (place_of s g) (b.reads g lt))

  outputs : {n : ℕ} → n ≡ byte s (get_or starts g 0 + 3) → (n ≡ output_count s (place_of s g)) × (n ≤ 8)
  outputs e =
      let x = e ∙ ap (λ (q : ℕ). byte s (q + 3)) place.0 in
      let y = (few-ports s (place_of s g) (b.reads g lt)).1 in
      (x, omega arith)

pub overflow_add-p : goal.overflow_add-p
overflow_add-p c = omega (arith, head-fits c.args.self.table.now c.args.p c.requires.k_le_function_limit.2)

pub bounds-self-p : goal.bounds-self-p
bounds-self-p c = omega (arith, head-fits c.args.self.table.now c.args.p c.requires.k_le_function_limit.2)

pub overflow_add-ty : goal.overflow_add-ty
overflow_add-ty c = omega (arith, head-fits c.args.self.table.now c.args.p c.requires.k_le_function_limit.2)

pub bounds-self-p-else-is_call : goal.bounds-self-p-else-is_call
bounds-self-p-else-is_call c = omega (arith, head-fits c.args.self.table.now c.args.p c.requires.k_le_function_limit.2)

pub overflow_add-self : goal.overflow_add-self
overflow_add-self c = let (e, l) = place c.requires.k_le_function_limit.3 c.in-Some.ensures.1 in omega (arith, e, l)

pub bounds-self-self : goal.bounds-self-self
bounds-self-self c = let (e, l) = place c.requires.k_le_function_limit.3 c.in-Some.ensures.1 in omega (arith, e, l)

-- ---- a call

pub allocate_call-requires : goal.allocate_call-requires
allocate_call-requires c =
    let a = c.args in
    let s = a.self.table.now in
    let (k16, i, read, started, held) = c.requires.k_le_function_limit in
    let (eg, lt) = c.in-Some.ensures in
    let r = c.ports_of-row in
    let is_call = sym c.is_call.ensures ∙ c.if-is_call.true in
    let z = callee-units a.self.version s a.k a.p (byte s (a.p + 2)) r.result refl r.ensures is_call c.callee_at-callee.result c.in-Some.g c.callee_at-callee.ensures eg k16 lt in
    let (x, y) = outputs started lt c.from-count.ensures in
    let v = c.requires.p_bound in
    let top = limit-bound a.self.version in
    (omega arith, y, c.requires.all_outs.1, i, omega arith)

pub units-requires : goal.units-requires
units-requires c =
    let a = c.args in
    let s = a.self.table.now in
    let (k16, i, read, started, held) = c.requires.k_le_function_limit in
    let (eg, lt) = c.in-Some.ensures in
    let r = c.ports_of-row in
    let is_call = sym c.is_call.ensures ∙ c.if-is_call.true in
    let z = callee-units a.self.version s a.k a.p (byte s (a.p + 2)) r.result refl r.ensures is_call c.callee_at-callee.result c.in-Some.g c.callee_at-callee.ensures eg k16 lt in
    let l = c.requires.p_bound in
    let v = held-exact (held c.in-Some.g lt) (omega arith) in
    omega arith

pub overflow_add-result : goal.overflow_add-result
overflow_add-result c =
    let a = c.args in
    let s = a.self.table.now in
    let (k16, i, read, started, held) = c.requires.k_le_function_limit in
    let (eg, lt) = c.in-Some.ensures in
    let r = c.ports_of-row in
    let is_call = sym c.is_call.ensures ∙ c.if-is_call.true in
    let z = callee-units a.self.version s a.k a.p (byte s (a.p + 2)) r.result refl r.ensures is_call c.callee_at-callee.result c.in-Some.g c.callee_at-callee.ensures eg k16 lt in
    let l = c.requires.p_bound in
    let v = held-exact (held c.in-Some.g lt) (omega arith) in
    let u = c.units.ensures in
    let top = limit-bound a.self.version in
    omega arith

pub returns-in-Some : goal.returns-in-Some
returns-in-Some c =
    let a = c.args in
    let s = a.self.table.now in
    let kind = byte s (a.p + 2) in
    let (k16, i, read, started, held) = c.requires.k_le_function_limit in
    let (eg, lt) = c.in-Some.ensures in
    let r = c.ports_of-row in
    let at = c.callee_at-callee in
    let is_call = sym c.is_call.ensures ∙ c.if-is_call.true in
    let z = callee-units a.self.version s a.k a.p kind r.result refl r.ensures is_call at.result c.in-Some.g at.ensures eg k16 lt in
    let (x, y) = outputs started lt c.from-count.ensures in
    let l = c.requires.p_bound in
    let v = held-exact (held c.in-Some.g lt) (omega arith) in
    let called = ap PortList.calling (sym (form-is s a.p kind r.result refl r.ensures)) ∙ is_call in
    let n = c.requires.all_outs.2 ∙ count-is a.self.version s a.layout.now.locations a.k a.p a.cell a.layout.now.locations 0 0 called (byte s (a.p + 4 + 2)) at.result refl at.ensures in
    record {
      allocated_after =
          c.allocate_call.ensures
          ∙ ap (λ (l : List ℕ). sets a.allocated.now (8 * a.i) l)
          (call-codes s a.layout.now.outs a.layout.now.locations a.k a.p a.cell a.d kind r.result refl r.ensures is_call at.result c.in-Some.g at.ensures eg lt a.n c.from-count.result n x);
      value = ap (λ (v : ℕ). a.d + v) (c.units.ensures ∙ v ∙ sym z);
    }

pub returns-in_default : goal.returns-in_default
returns-in_default c =
    let a = c.args in
    let s = a.self.table.now in
    let r = c.ports_of-row in
    let at = c.callee_at-callee in
    let is_call = sym c.is_call.ensures ∙ c.if-is_call.true in
    let le : a.k ≤ position_of s a.k at.result = c.in_default.ensures.1 in
    let w = no-units a.self.version s a.k a.p (byte s (a.p + 2)) r.result refl r.ensures is_call at.result _ at.ensures refl le in
    record {
      allocated_after =
          ap (λ (l : List ℕ). sets a.allocated.now (8 * a.i) l)
          (sym (no-codes s a.layout.now.outs a.layout.now.locations a.k a.p a.cell a.d (byte s (a.p + 2)) r.result refl r.ensures is_call at.result _ at.ensures refl le));
      value = omega arith;
    }

-- ---- no call

pub allocate_results-requires : goal.allocate_results-requires
allocate_results-requires c =
    let r = c.ports_of-row in
    let s = c.args.self.table.now in
    let v = c.requires.p_bound in
    let n = (row-narrow s c.args.p (byte s (c.args.p + 2)) r.result refl r.ensures).results in
    let e = c.from-count-else-is_call.ensures in
    let top = limit-bound c.args.self.version in
    (c.requires.k_le_function_limit.1, omega arith, omega arith, c.width-w.ensures.bounded)

pub returns-else-is_call : goal.returns-else-is_call
returns-else-is_call c =
    let a = c.args in
    let s = a.self.table.now in
    let r = c.ports_of-row in
    let plain = sym c.is_call.ensures ∙ c.if-is_call.false in
    let all = ap (units_in a.self.version) (Summing.plain s a.k a.p (byte s (a.p + 2)) r.result refl r.ensures plain) ∙ sym c.taken-all.ensures.value in
    record {
      allocated_after =
          c.allocate_results.ensures
          ∙ ap (λ (l : List ℕ). sets a.allocated.now (8 * a.i) l)
          (plain-codes s a.layout.now.outs a.layout.now.locations a.k a.p a.cell a.d (byte s (a.p + 2)) r.result refl r.ensures plain (byte s (a.p + 3)) c.width-w.result c.from-count-else-is_call.result
          refl (c.width-w.ensures.value ∙ ap PortList.width c.own.ensures) c.from-count-else-is_call.ensures);
      value = ap (λ (w : ℕ). a.d + w) (sym all);
    }
