use Rattle.std.proofs.Common.{◌≡◌, ap, ◌∙◌, ℕ, Bool}
use Rattle.std.specs.Prelude.{Option}
use Rattle.std.specs.Bool.{then_some}
use lib.Dec.{leb}
use Rattle.base.specs.Limits.{operation_limit, word_limit, within_limits}
use Rattle.lowering.specs.Listing.{newline, operations_text, words_text, code_text, over_text, none_text}
use Rattle.listing.specs.Lines.{counts_text}
use Rattle.listing.proofs.Lines.{counts-rooms}
use Rattle.listing.proofs.Runs.{then, room-rest, room-shown, counted}
use Rattle.listing.proofs.Text.put_counts.Goals as goal

code-is : (n : ℕ) {b c : Bool} {r : Option ℕ} → r ≡ then_some b n → b ≡ c → r ≡ then_some c n
code-is n e f = e ∙ ap (λ (b : Bool). then_some b n) f

pub put_count-requires : goal.put_count-requires
put_count-requires c = let a = c.args in
    room-shown operations_text (leb a.operations operation_limit) a.operations over_text c.then_some-few_operations.ensures a.self.now.length (counts-rooms a.operations a.words a.code a.self.now.length c.requires).0

pub put_count-requires-2 : goal.put_count-requires-2
put_count-requires-2 c = let a = c.args in
    room-shown words_text (leb a.words word_limit) a.words over_text c.then_some-few_words.ensures c.put_count.new.self.length (room-rest _ (counted operations_text (leb a.operations operation_limit) a.operations over_text c.then_some-few_operations.ensures c.put_count.ensures) (counts-rooms a.operations a.words a.code a.self.now.length c.requires).1)

pub put_count-requires-3 : goal.put_count-requires-3
put_count-requires-3 c = let a = c.args in
    room-shown code_text (within_limits a.operations a.words) a.code none_text (code-is a.code c.then_some-has_code.ensures c.within_limits.ensures) c.put_count-2.new.self.length
    (room-rest _ (then (counted operations_text (leb a.operations operation_limit) a.operations over_text c.then_some-few_operations.ensures c.put_count.ensures) (counted words_text (leb a.words word_limit) a.words over_text c.then_some-few_words.ensures c.put_count-2.ensures)) (counts-rooms a.operations a.words a.code a.self.now.length c.requires).2)

pub put_bytes-requires : goal.put_bytes-requires
unfolding counts_text
put_bytes-requires c = let a = c.args in
    room-rest newline (then (then (counted operations_text (leb a.operations operation_limit) a.operations over_text c.then_some-few_operations.ensures c.put_count.ensures) (counted words_text (leb a.words word_limit) a.words over_text c.then_some-few_words.ensures c.put_count-2.ensures)) (counted code_text (within_limits a.operations a.words) a.code none_text (code-is a.code c.then_some-has_code.ensures c.within_limits.ensures) c.put_count-3.ensures)) c.requires

pub returns : goal.returns
unfolding counts_text
returns c = let a = c.args in
    then (then (then (counted operations_text (leb a.operations operation_limit) a.operations over_text c.then_some-few_operations.ensures c.put_count.ensures) (counted words_text (leb a.words word_limit) a.words over_text c.then_some-few_words.ensures c.put_count-2.ensures)) (counted code_text (within_limits a.operations a.words) a.code none_text (code-is a.code c.then_some-has_code.ensures c.within_limits.ensures) c.put_count-3.ensures)) c.put_bytes.ensures
