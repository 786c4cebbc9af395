use Rattle.std.proofs.Common.{ℕ, ◌≡◌, ap, sym, subst, ◌∙◌, arith, []}
use Rattle.std.proofs.lemmas.Result.{err_from_is_err_and}
use Rattle.std.proofs.Math.Option.{none}
use Rattle.base.specs.Bytes.{Bytes}
use Rattle.graph.specs.Judge.{fresh}
use Rattle.graph.specs.Look.{find_function}
use Rattle.reader.specs.Layout.{nodes_place, function_at, known}
use Rattle.reader.proofs.Passed.{function-holds}
use Rattle.resolver.specs.Slots.{PlacesAre}
use Rattle.checker.specs.declared.scene.Head.{Head}
use Rattle.checker.specs.Slots.{SceneHeld, RowsAre}
use Rattle.checker.proofs.Slotting.{it-went, few-nodes, nodes-read, by_read, same_by, rows_are, places-length, places-are}
use Rattle.checker.proofs.Whole.{told, is_new, was_there, Checked, judged-fresh, judged-calls, judged-outputs, judged-nodes, judged-loops, ready}
use Rattle.checker.proofs.judge_function.Goals as goal

pub u16_at-requires : goal.u16_at-requires
u16_at-requires c =
    let h = function-holds c.args.s.now c.args.place c.requires.2 in omega (arith, h.head)

pub returns-then-is_some-clause-value : goal.returns-then-is_some-clause-value
returns-then-is_some-clause-value c =
    let a = c.args in
    told c.at.ensures
    ∙ sym (was_there a.s.now a.starts.now a.k a.place c.u16_at.result c.u16_at.ensures.0 c.find_function.result c.find_function.ensures c.if-is_some.ensures)

pub u16_at-count-requires : goal.u16_at-count-requires
u16_at-count-requires c =
    let h = function-holds c.args.s.now c.args.place c.requires.2 in omega (arith, h.head)

pub places-requires : goal.places-requires
places-requires c =
    let f : Head = record { place = c.args.place; first = c.nodes_place-first.result; count = c.u16_at-count.result } in
    let h : SceneHeld c.args.s.now c.args.starts.now c.args.k f =
    record { started = c.requires.0; few = c.requires.1; reads = c.requires.2; first = c.nodes_place-first.ensures; count = c.u16_at-count.ensures.0 } in
    (nodes-read h, few-nodes h, c.requires.3, c.requires.4)

pub invariant_of-scene : goal.invariant_of-scene
invariant_of-scene c =
    let f : Head = record { place = c.args.place; first = c.nodes_place-first.result; count = c.u16_at-count.result } in
    let h : SceneHeld c.args.s.now c.args.starts.now c.args.k f =
    record { started = c.requires.0; few = c.requires.1; reads = c.requires.2; first = c.nodes_place-first.ensures; count = c.u16_at-count.ensures.0 } in
    let placed : PlacesAre c.args.s.now f.first f.count c.places.new.places =
    places-are c.args.s.now f.first f.count c.args.places.now c.places.new.places c.places.ensures c.requires.4 (few-nodes h) in
    record {
      few = c.requires.1;
      started = λ j l. it-went _ (c.requires.0 j l);
      reads = it-went _ c.requires.2;
      first = c.nodes_place-first.ensures;
      count = c.u16_at-count.ensures.0;
      fits = (function-holds c.args.s.now c.args.place c.requires.2).outputs;
      small = few-nodes h;
      placed = placed;
    }

pub returns-in_err-fresh_nodes-clause-value : goal.returns-in_err-fresh_nodes-clause-value
returns-in_err-fresh_nodes-clause-value c =
    let early = known c.args.s.now c.args.starts.now c.args.k in
    let fn = function_at c.args.s.now c.args.place in
    let new : find_function fn.id early ≡ none =
    is_new c.args.s.now c.args.starts.now c.args.k c.args.place c.u16_at.result c.u16_at.ensures.0 c.find_function.result c.find_function.ensures c.if-is_some.ensures in
    let p = err_from_is_err_and c.from_residual.result c.from_residual.ensures.1 in
    rw (p.1, p.2) (sym (judged-fresh early fn new (sym c.in_err-fresh_nodes.ensures)))

pub returns-in_err-calls_good-clause-value : goal.returns-in_err-calls_good-clause-value
returns-in_err-calls_good-clause-value c =
    let early = known c.args.s.now c.args.starts.now c.args.k in
    let fn = function_at c.args.s.now c.args.place in
    let new : find_function fn.id early ≡ none =
    is_new c.args.s.now c.args.starts.now c.args.k c.args.place c.u16_at.result c.u16_at.ensures.0 c.find_function.result c.find_function.ensures c.if-is_some.ensures in
    let p = err_from_is_err_and c.from_residual-in_err-calls_good.result c.from_residual-in_err-calls_good.ensures.1 in
    rw (p.1, p.2) (sym (judged-calls early fn new (sym c.in_ok-fresh_nodes.ensures) (sym c.in_err-calls_good.ensures)))

pub returns-in_err-outputs_good-clause-value : goal.returns-in_err-outputs_good-clause-value
returns-in_err-outputs_good-clause-value c =
    let early = known c.args.s.now c.args.starts.now c.args.k in
    let fn = function_at c.args.s.now c.args.place in
    let new : find_function fn.id early ≡ none =
    is_new c.args.s.now c.args.starts.now c.args.k c.args.place c.u16_at.result c.u16_at.ensures.0 c.find_function.result c.find_function.ensures c.if-is_some.ensures in
    let p = err_from_is_err_and c.from_residual-in_err-outputs_good.result c.from_residual-in_err-outputs_good.ensures.1 in
    rw (p.1, p.2) (sym (judged-outputs early fn new (sym c.in_ok-fresh_nodes.ensures) (sym c.in_ok-calls_good.ensures) (sym c.in_err-outputs_good.ensures)))

pub resolve-requires : goal.resolve-requires
resolve-requires c =
    let f : Head = record { place = c.args.place; first = c.nodes_place-first.result; count = c.u16_at-count.result } in
    let h : SceneHeld c.args.s.now c.args.starts.now c.args.k f =
    record { started = c.requires.0; few = c.requires.1; reads = c.requires.2; first = c.nodes_place-first.ensures; count = c.u16_at-count.ensures.0 } in
    let placed : PlacesAre c.args.s.now f.first f.count c.places.new.places =
    places-are c.args.s.now f.first f.count c.args.places.now c.places.new.places c.places.ensures c.requires.4 (few-nodes h) in
    (by_read h c.places.new.places placed, few-nodes h, c.requires.5, ap (fresh []) (same_by h c.places.new.places placed) ∙ sym c.in_ok-fresh_nodes.ensures)

pub nodes_good-requires : goal.nodes_good-requires
nodes_good-requires c =
    let f : Head = record { place = c.args.place; first = c.nodes_place-first.result; count = c.u16_at-count.result } in
    let h : SceneHeld c.args.s.now c.args.starts.now c.args.k f =
    record { started = c.requires.0; few = c.requires.1; reads = c.requires.2; first = c.nodes_place-first.ensures; count = c.u16_at-count.ensures.0 } in
    let placed : PlacesAre c.args.s.now f.first f.count c.places.new.places =
    places-are c.args.s.now f.first f.count c.args.places.now c.places.new.places c.places.ensures c.requires.4 (few-nodes h) in
    let rows : RowsAre c.args.s.now c.args.place f.count c.resolve.new.targets =
    rows_are h c.places.new.places placed c.args.targets.now c.resolve.new.targets c.resolve.ensures c.requires.5 in
    (rows, sym c.in_ok-calls_good.ensures)

pub returns-in_err-nodes_good-clause-value : goal.returns-in_err-nodes_good-clause-value
returns-in_err-nodes_good-clause-value c =
    let early = known c.args.s.now c.args.starts.now c.args.k in
    let fn = function_at c.args.s.now c.args.place in
    let new : find_function fn.id early ≡ none =
    is_new c.args.s.now c.args.starts.now c.args.k c.args.place c.u16_at.result c.u16_at.ensures.0 c.find_function.result c.find_function.ensures c.if-is_some.ensures in
    let p = err_from_is_err_and c.from_residual-in_err-nodes_good.result c.from_residual-in_err-nodes_good.ensures.1 in
    rw (p.1, p.2) (sym (judged-nodes early fn new (sym c.in_ok-fresh_nodes.ensures) (sym c.in_ok-calls_good.ensures) (sym c.in_ok-outputs_good.ensures) (sym c.in_err-nodes_good.ensures)))

-- ---- the loops

pub loop_free-requires : goal.loop_free-requires
loop_free-requires c =
    let early = known c.args.s.now c.args.starts.now c.args.k in
    let fn = function_at c.args.s.now c.args.place in
    let new : find_function fn.id early ≡ none =
    is_new c.args.s.now c.args.starts.now c.args.k c.args.place c.u16_at.result c.u16_at.ensures.0 c.find_function.result c.find_function.ensures c.if-is_some.ensures in
    let f : Head = record { place = c.args.place; first = c.nodes_place-first.result; count = c.u16_at-count.result } in
    let h : SceneHeld c.args.s.now c.args.starts.now c.args.k f =
    record { started = c.requires.0; few = c.requires.1; reads = c.requires.2; first = c.nodes_place-first.ensures; count = c.u16_at-count.ensures.0 } in
    let placed : PlacesAre c.args.s.now f.first f.count c.places.new.places =
    places-are c.args.s.now f.first f.count c.args.places.now c.places.new.places c.places.ensures c.requires.4 (few-nodes h) in
    let rows : RowsAre c.args.s.now c.args.place f.count c.resolve.new.targets =
    rows_are h c.places.new.places placed c.args.targets.now c.resolve.new.targets c.resolve.ensures c.requires.5 in
    let checked : Checked early fn =
    record {
      new = new;
      distinct = sym c.in_ok-fresh_nodes.ensures;
      calls = sym c.in_ok-calls_good.ensures;
      outputs = sym c.in_ok-outputs_good.ensures;
      nodes = sym c.in_ok-nodes_good.ensures;
    } in
    let small : Bytes c.args.s.now = λ i. omega (arith, c.type_inv.s i) in
    ready c.args.s.now small early f _ c.requires.2 h.first h.count checked rows

pub returns-clause-value : goal.returns-clause-value
returns-clause-value c =
    let early = known c.args.s.now c.args.starts.now c.args.k in
    let fn = function_at c.args.s.now c.args.place in
    let new : find_function fn.id early ≡ none =
    is_new c.args.s.now c.args.starts.now c.args.k c.args.place c.u16_at.result c.u16_at.ensures.0 c.find_function.result c.find_function.ensures c.if-is_some.ensures in
    let checked : Checked early fn =
    record {
      new = new;
      distinct = sym c.in_ok-fresh_nodes.ensures;
      calls = sym c.in_ok-calls_good.ensures;
      outputs = sym c.in_ok-outputs_good.ensures;
      nodes = sym c.in_ok-nodes_good.ensures;
    } in
    c.loop_free.ensures ∙ sym (judged-loops early fn checked)

pub returns-clause-filled : goal.returns-clause-filled
returns-clause-filled c =
    let f : Head = record { place = c.args.place; first = c.nodes_place-first.result; count = c.u16_at-count.result } in
    let h : SceneHeld c.args.s.now c.args.starts.now c.args.k f =
    record { started = c.requires.0; few = c.requires.1; reads = c.requires.2; first = c.nodes_place-first.ensures; count = c.u16_at-count.ensures.0 } in
    let placed : PlacesAre c.args.s.now f.first f.count c.places.new.places =
    places-are c.args.s.now f.first f.count c.args.places.now c.places.new.places c.places.ensures c.requires.4 (few-nodes h) in
    let rows : RowsAre c.args.s.now c.args.place f.count c.resolve.new.targets =
    rows_are h c.places.new.places placed c.args.targets.now c.resolve.new.targets c.resolve.ensures c.requires.5 in
    λ e. record {
      few = places-length c.args.s.now f.first f.count c.args.places.now c.places.new.places c.places.ensures c.requires.4;
      size = rows.size;
      places = subst (λ (n : ℕ). PlacesAre c.args.s.now (nodes_place c.args.s.now c.args.place) n c.places.new.places) h.count
          (subst (λ (p : ℕ). PlacesAre c.args.s.now p f.count c.places.new.places) h.first placed);
    }
