-- What demand 3 asks of a version of the list, and that both versions have it.
use Prim.Native.Nat.{◌≤◌}
use mathlib.Core.Path.{◌≡◌, refl, ◌∙◌}
use mathlib.Core.List.{List, ◌∷◌}
use native.Mathlib.Omega.{arith}
use lib.ListN.{length, length-map}
use Rattle.ports.specs.Ports.{widths}
use Rattle.base.specs.Limits.{operation_limit, word_limit}
use Rattle.graph.specs.Graph.{Function}
use Rattle.graph.specs.Types.{output_types}
use Rattle.graph.specs.Sums.{function_operations, operations_of}
use Rattle.graph.specs.Sound.{AllSound}
use Rattle.graph.specs.Table.{Chosen}
use Rattle.bytecode.specs.declared.Version.{Version}
use Rattle.bytecode.specs.declared.Version.TheVariants.{V1, V2}
use Rattle.bytecode.specs.WellFormed.{FormedList}
use Rattle.placement.specs.Place.{places_of, rename, reusing, numbered}
use Rattle.placement.specs.OneValue.{Placeable}
use Rattle.placement.proofs.Following.{routed}
use Rattle.lowering.specs.Compile.{board_list_of}
use Rattle.lowering.specs.Answers.{list_of, words_of}
use Rattle.lowering.proofs.Promise.{ListMeans, runs-mean}
use Rattle.lowering.proofs.Limits.{count_of, words-of, laid, output-words, port-words, formed-list}
use Rattle.lowering.proofs.Naming.{one_value}
use Rattle.lowering.proofs.Routed.{follows-means}
use Rattle.lowering.proofs.Fits.{reusing-formed}
use Rattle.lowering.proofs.Taken.{Serves}

-- the list of a function in a version has a code within the limits, the counts that the function says, and the function's meaning
pub record Lawful (v : Version) (x : Chosen) : Type 0 where
  pub formed : function_operations (operations_of x.early) x.function ≤ operation_limit → words_of v x ≤ word_limit → FormedList v (list_of v x)
  pub arguments : (list_of v x).arguments ≡ widths x.function.inputs
  pub words : (list_of v x).words ≡ words_of v x
  pub outputs : length (list_of v x).outputs ≡ widths (output_types x.function.outputs)
  pub means : ListMeans x (list_of v x)

-- a list that can be placed
pub placeable : (early : List Function) (f : Function) → AllSound (f ∷ early) → Placeable f.inputs (board_list_of early f)
placeable early f sound =
    let (fit, below, size) = laid early f sound in
    record { arguments = refl; fit = fit; below = below; whole = one_value early f sound }

-- within the limits it serves the function
pub lawful-serves : (v : Version) (x : Chosen) → Lawful v x → function_operations (operations_of x.early) x.function ≤ operation_limit → words_of v x ≤ word_limit
    → Serves v x (list_of v x)
lawful-serves v x l operations words = record { formed = l.formed operations words; arguments = l.arguments; outputs = l.outputs; means = l.means }

pub lawful : (v : Version) (x : Chosen) → AllSound (x.function ∷ x.early) → Lawful v x
lawful V1 x sound =
    let early = x.early in
    let f = x.function in
    record {
      formed = formed-list early f sound;
      arguments = refl;
      words = words-of early f sound;
      outputs = output-words early f sound;
      means = runs-mean x sound;
    }
lawful V2 x sound =
    let early = x.early in
    let f = x.function in
    let b = board_list_of early f in
    let b' = reusing f.inputs b in
    let t = placeable early f sound in
    let (la, lo, ho) = port-words early f sound in
    record {
      formed = λ operations words. reusing-formed f.inputs b t la lo ho (let n = count_of early f sound in omega arith) words;
      arguments = refl;
      words = refl;
      outputs = length-map b.outputs (rename (places_of f.inputs b)) ∙ output-words early f sound;
      means = follows-means x sound b' (numbered 0 b'.instructions) (routed f.inputs b t);
    }
