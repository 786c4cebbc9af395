-- The text of a table, function by function.
use Prim.Native.Nat.{ℕ, zero, suc, ◌+◌, ◌≤◌, min}
use mathlib.Core.Path.{◌≡◌, refl, sym, ap, ◌∙◌}
use mathlib.Core.Bool.{Bool, true, false, cond}
use mathlib.Core.List.{List, ◌++◌, append_assoc}
use native.Mathlib.Omega.{arith}
use lib.Dec.{leb}
use lib.ListN.{length}
use borrow.Author.Tests.{leb-true}
use Rattle.reader.proofs.Passed.{length-earlier}
use Rattle.resolver.proofs.Rows.{length-nodes}
use Rattle.checker.proofs.Calls.{inputs-length}
use Rattle.sums.specs.declared.Sizes.{Sizes}
use Rattle.sums.specs.Position.{place_of, function_in, before}
use Rattle.sums.specs.Answers.{capped_sizes, sizes_of}
use Rattle.sums.proofs.Accepted.{functions-are, refused-table}
use Rattle.sums.proofs.Measuring.{leb-cap}
use Rattle.base.specs.Outcome.{ok, fault}
use Rattle.base.specs.Bytes.{byte, u16}
use Rattle.graph.specs.Graph.{Function}
use Rattle.graph.specs.Format.{format_of}
use Rattle.graph.specs.Judge.{verdict}
use Rattle.graph.specs.Sums.{function_operations, operations_of, function_words}
use Rattle.reader.specs.Layout.{outputs_at, function_at, input_count, output_count, node_count, outputs_place, nodes_place}
use Rattle.lowering.specs.Compile.{board_list_of}
use Rattle.base.specs.Limits.{operation_limit, within_limits, word_limit}
use Rattle.bytecode.specs.declared.Version.TheVariants.{V1}
use Rattle.bytecode.specs.Code.{encode}
use Rattle.lowering.specs.Listing.{decimal, newline, accepted_text, refused_text, at_text, function_text, inputs_text, outputs_text, nodes_text, operations_text, words_text, code_text, none_text, limited, code_length_text, function_line, function_lines, report, listing}
use Rattle.listing.specs.Lines.{head_text, counts_text, line_at}

-- ---- a function's line by its numbers

regroup : (a b c d e f g h i j k l m n o : List ℕ)
    → a ++ b ++ c ++ d ++ e ++ f ++ g ++ h ++ i ++ j ++ k ++ l ++ m ++ n ++ o
    ≡ ((a ++ b) ++ (c ++ d) ++ (e ++ f) ++ (g ++ h)) ++ ((i ++ j) ++ (k ++ l) ++ (m ++ n) ++ o)
regroup a b c d e f g h i j k l m n o = simp append_assoc

by-numbers : (early : List Function) (f : Function)
    → function_line early f
    ≡ head_text f.id (length f.inputs) (length f.outputs) (length f.nodes)
    ++ counts_text (function_operations (operations_of early) f) (function_words early f) (length (encode V1 (board_list_of early f)))
unfolding function_line head_text counts_text
by-numbers early f =
    let operations = function_operations (operations_of early) f in
    let words = function_words early f in
    regroup function_text (decimal f.id) inputs_text (decimal (length f.inputs)) outputs_text (decimal (length f.outputs)) nodes_text (decimal (length f.nodes))
    operations_text (limited operation_limit operations) words_text (limited word_limit words)
    code_text (code_length_text (within_limits operations words) (encode V1 (board_list_of early f))) newline

-- ---- sums above a limit may be capped

limited-cap : (limit n : ℕ) → limited limit (min (suc limit) n) ≡ limited limit n
limited-cap limit n = by-limit (leb n limit) refl
  where
    by-limit : (b : Bool) → leb n limit ≡ b → limited limit (min (suc limit) n) ≡ limited limit n
    by-limit true e =
        let h : n ≤ limit = leb-true n limit e in
        let z : min (suc limit) n ≡ n = omega arith in
        ap (limited limit) z
    by-limit false e = rw (leb-cap limit n, e)

code-cap : (b : Bool) (c d : ℕ) → (b ≡ true → c ≡ d) → cond b (decimal c) none_text ≡ cond b (decimal d) none_text
code-cap true c d h = ap decimal (h refl)
code-cap false c d h = refl

counts-cap : (operations words c d : ℕ) → (within_limits operations words ≡ true → c ≡ d) → counts_text (min (operation_limit + 1) operations) (min (word_limit + 1) words) c ≡ counts_text operations words d
unfolding counts_text
counts-cap operations words c d h =
    let w : within_limits (min (operation_limit + 1) operations) (min (word_limit + 1) words) ≡ within_limits operations words = rw (leb-cap operation_limit operations, leb-cap word_limit words) in
    ap (λ (b : Bool). (operations_text ++ limited operation_limit (min (operation_limit + 1) operations)) ++ (words_text ++ limited word_limit (min (word_limit + 1) words)) ++ (code_text ++ cond b (decimal c) none_text) ++ newline) w
    ∙ ap (λ (xs : List ℕ). (operations_text ++ xs) ++ (words_text ++ limited word_limit (min (word_limit + 1) words)) ++ (code_text ++ cond (within_limits operations words) (decimal c) none_text) ++ newline) (limited-cap operation_limit operations)
    ∙ ap (λ (xs : List ℕ). (operations_text ++ limited operation_limit operations) ++ (words_text ++ xs) ++ (code_text ++ cond (within_limits operations words) (decimal c) none_text) ++ newline) (limited-cap word_limit words)
    ∙ ap (λ (xs : List ℕ). (operations_text ++ limited operation_limit operations) ++ (words_text ++ limited word_limit words) ++ (code_text ++ xs) ++ newline) (code-cap (within_limits operations words) c d h)

-- ---- at a place

outputs-length : (n : ℕ) (s : List ℕ) (at : ℕ) → length (outputs_at n s at) ≡ n
outputs-length zero s at = refl
outputs-length (suc n) s at = ap suc (outputs-length n s (at + 4))

head_at : (s : List ℕ) (p : ℕ) (f : Function) → f ≡ function_at s p
    → head_text f.id (length f.inputs) (length f.outputs) (length f.nodes) ≡ head_text (u16 s p) (byte s (p + 2)) (byte s (p + 3)) (u16 s (p + 4))
unfolding function_at
head_at s p f e = rw e (rw (inputs-length (input_count s p) s (p + 6), outputs-length (output_count s p) s (outputs_place s p), length-nodes (node_count s p) s (nodes_place s p)))

-- the line of the function at position k, by its sizes
pub line-at : (s : List ℕ) (k : ℕ) (r : Sizes) → r ≡ sizes_of s k → line_at s r.place r.operations r.words r.code ≡ function_line (before s k) (function_in s k)
unfolding line_at capped_sizes function_at
line-at s k r e =
    let early = before s k in
    let f = function_in s k in
    let operations = function_operations (operations_of early) f in
    let words = function_words early f in
    let code = length (encode V1 (board_list_of early f)) in
    let capped = cond (within_limits operations words) code 0 in
    ap (λ (x : Sizes). line_at s x.place x.operations x.words x.code) e
    ∙ ap (λ (xs : List ℕ). xs ++ counts_text (min (operation_limit + 1) operations) (min (word_limit + 1) words) capped) (sym (head_at s (place_of s k) f refl))
    ∙ ap (λ (xs : List ℕ). head_text f.id (length f.inputs) (length f.outputs) (length f.nodes) ++ xs) (counts-cap operations words capped code (ap (λ (b : Bool). cond b code 0)))
    ∙ sym (by-numbers early f)

-- ---- the table

pub listing-accepted : (s : List ℕ) (n : ℕ) → verdict s ≡ ok n → accepted_text ++ decimal n ++ newline ++ function_lines (before s n) ≡ listing s
unfolding listing
listing-accepted s n e =
    ap (λ (m : ℕ). accepted_text ++ decimal m ++ newline ++ function_lines (before s n)) (sym (length-earlier (format_of s).header s n)) ∙ sym (ap report (functions-are s n e))

pub listing-refused : (s : List ℕ) (a b : ℕ) → verdict s ≡ fault a b → refused_text ++ decimal a ++ at_text ++ decimal b ++ newline ≡ listing s
unfolding listing
listing-refused s a b e = sym (ap report (refused-table s a b e))
