-- A graph table as data. Each part keeps the place where it stands, which only refusals name.
use Rattle.std.specs.Prelude.{ℕ, List}

-- a reference: the node's id, or 0 for the function's own inputs, and the port
pub record Ref : Type 0 where
  pub node : ℕ
  pub port : ℕ
  pub place : ℕ

-- a kind's own payload: the words of a constant, references, or a callee's id with the arguments' references
pub data Payload : Type 0 where
  consts : List ℕ → Payload
  refs : List Ref → Payload
  calls : ℕ → List Ref → Payload

pub record Node : Type 0 where
  pub id : ℕ
  pub place : ℕ
  pub kind : ℕ
  pub type : ℕ
  pub payload : Payload

pub record Output : Type 0 where
  pub type : ℕ
  pub ref : Ref

pub record Function : Type 0 where
  pub id : ℕ
  pub place : ℕ
  pub inputs : List ℕ
  pub outputs : List Output
  pub nodes : List Node
