-- What it is to read a kind or a style off its number.
use Rattle.std.specs.Prelude.{◌≡◌, ℕ, Result, IfErr}
use Rattle.std.specs.Result.{result_ok}
use Rattle.events.specs.declared.kinds.EventKind.{EventKind}
use Rattle.events.specs.declared.kinds.ScalarStyle.{ScalarStyle}
use Rattle.events.specs.declared.kinds.UnknownKind.{UnknownKind}
use Rattle.events.specs.declared.kinds.UnknownStyle.{UnknownStyle}
use Rattle.events.specs.Kinds.{kind_of, style_of}

-- the kind of a number, or the number itself where no kind has it
pub record DecodesKind (n : ℕ) (r : Result EventKind UnknownKind) : Type 0 where
  pub is_the_kind_of_the_number : result_ok r ≡ kind_of n
  pub tells_the_number : IfErr r (λ e. e.0 ≡ n)

-- the style of a number, or the number itself where no style has it
pub record DecodesStyle (n : ℕ) (r : Result ScalarStyle UnknownStyle) : Type 0 where
  pub is_the_style_of_the_number : result_ok r ≡ style_of n
  pub tells_the_number : IfErr r (λ e. e.0 ≡ n)
