-- What a refusal tells.
use Rattle.std.specs.Prelude.{List, ℕ}
use Rattle.refusals.specs.declared.Layer.{Layer}

-- its number, the values that it returns, the events handed out, the source number, and the layer that refuses
pub record Told : Type 0 where
  pub number : ℕ
  pub returned : List ℕ
  pub handed_out : ℕ
  pub source : ℕ
  pub layer : Layer
