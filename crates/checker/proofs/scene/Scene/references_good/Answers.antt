use Rattle.std.proofs.Common.{ℕ, ◌≡◌, ◌+◌, ◌-◌, ◌*◌, drop, ap, sym, ◌∙◌, arith}
use Rattle.graph.specs.Read.{references}
use Rattle.checker.specs.Answers.{wants_list, references_checked}
use Rattle.checker.specs.Scenes.{early}
use Rattle.checker.proofs.Wiring.{lost, mistyped, welltyped, wanted-is, wants_fit, references-fault, references-on, references-none}
use Rattle.checker.proofs.Whole.{told}
use Rattle.checker.proofs.scene.Scene.references_good.Goals as goal

pub loop-j-init : goal.loop-j-init
loop-j-init c =
    let w = c.args.self.now in
    let r = c.args.reads in
    let z : r.count ≡ r.count - 0 = omega arith in
    let begin : r.first ≡ r.first + 0 = omega arith in
    ap (λ (m : ℕ). references_checked w.s.now (early w) w.head.place (wants_list w.s.now r.count c.args.want) (references m w.s.now r.first)) z
    ∙ ap (λ (p : ℕ). references_checked w.s.now (early w) w.head.place (wants_list w.s.now r.count c.args.want) (references (r.count - 0) w.s.now p)) begin

pub slot_port-requires : goal.slot_port-requires
slot_port-requires c = (
  omega (arith, c.requires.1, c.loop-j-test.true),
  c.from-slot.ensures ∙ c.requires.4 c.loop-j.j c.loop-j-test.true,
)

pub returns-in_default : goal.returns-in_default
returns-in_default c =
    let w = c.args.self.now in
    let r = c.args.reads in
    let at = r.first + 3 * c.loop-j.j in
    told c.at.ensures
    ∙ sym
    (c.loop-j.invariant
    ∙ references-fault w.s.now (early w) w.head.place r.count c.args.want at c.loop-j.j c.loop-j-test.true
    (lost w.s.now (early w) w.head.place at _ (sym c.in_default.ensures)))

pub nth-requires : goal.nth-requires
nth-requires c = wants_fit c.args.self.now.s.now c.args.reads.count (c.loop-j.j + 1) (omega (arith, c.loop-j-test.true)) c.args.want c.requires.0

pub returns-then-ty-nth : goal.returns-then-ty-nth
returns-then-ty-nth c =
    let w = c.args.self.now in
    let r = c.args.reads in
    let at = r.first + 3 * c.loop-j.j in
    let want = c.nth.ensures ∙ wanted-is w.s.now r.count c.loop-j.j c.loop-j-test.true c.args.want in
    told c.at-then-ty-nth.ensures
    ∙ sym
    (c.loop-j.invariant
    ∙ references-fault w.s.now (early w) w.head.place r.count c.args.want at c.loop-j.j c.loop-j-test.true
    (mistyped w.s.now (early w) w.head.place at c.in-Some.ty (sym c.in-Some.ensures) _ (λ q. c.if-ty-nth.true (q ∙ sym want))))

pub loop-j-preserved : goal.loop-j-preserved
loop-j-preserved c =
    let w = c.args.self.now in
    let r = c.args.reads in
    let ws = wants_list w.s.now r.count c.args.want in
    let j = c.loop-j.j in
    let at = r.first + 3 * j in
    let want = c.nth.ensures ∙ wanted-is w.s.now r.count j c.loop-j-test.true c.args.want in
    let next : at + 3 ≡ r.first + 3 * (j + 1) = omega arith in
    c.loop-j.invariant
    ∙ references-on w.s.now (early w) w.head.place r.count c.args.want at j c.loop-j-test.true
    (welltyped w.s.now (early w) w.head.place at c.in-Some.ty (sym c.in-Some.ensures) _ (c.if-ty-nth.false ∙ want))
    ∙ ap (λ (p : ℕ). references_checked w.s.now (early w) w.head.place (drop (j + 1) ws) (references (r.count - (j + 1)) w.s.now p)) next

pub returns : goal.returns
returns c =
    let w = c.args.self.now in
    let r = c.args.reads in
    sym (c.loop-j.invariant ∙ references-none w.s.now (early w) w.head.place r.count c.args.want (r.first + 3 * c.loop-j.j) c.loop-j.j (omega arith))
