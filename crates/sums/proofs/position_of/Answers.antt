use Rattle.std.proofs.Common.{◌≡◌, ap, ◌∙◌, rules}
use Rattle.std.specs.Option.{option_map}
use Rattle.reader.specs.declared.Found.{Found}
use Rattle.reader.specs.Find.{function_found}
use Rattle.sums.proofs.Tabulate.{starts-read, starts-known}
use Rattle.sums.proofs.Positions.{position-found}
use Rattle.sums.proofs.position_of.Goals as goal

pub find_function-requires : goal.find_function-requires
find_function-requires c = (starts-read c.requires.1, c.requires.0)

pub returns : goal.returns
returns c =
    let index : c.map.result ≡ option_map (λ (x : Found). x.index) c.find_function.result = search rules in
    position-found c.args.table.now c.args.k c.args.id c.requires.0 (c.find_function.ensures ∙ ap (function_found c.args.id) (starts-known c.requires.1)) index
