-- What the function of a scene is judged by.
use Rattle.std.specs.Prelude.{List}
use Rattle.graph.specs.Graph.{Function}
use Rattle.reader.specs.Layout.{function_at, known}
use Rattle.checker.specs.declared.scene.Scene.{Scene}

-- the functions before it
abbrev pub early : Scene → List Function
early c = known c.s.now c.starts.now c.k

abbrev pub judged : Scene → Function
judged c = function_at c.s.now c.head.place
