-- What a line requests, and what it defines.
-- For `answer`, `prepared`.
use Rattle.std.proofs.Common.{◌≡◌, ℕ, List, Option, Some, None, sym, subst, ap, ◌∙◌}
use Rattle.std.specs.Option.{IfSome, option_map}
use Rattle.hex.specs.Hex.{decode_of}
use Rattle.cm_lines.specs.declared.line.Line.{Line}
use Rattle.cm_lines.specs.Lines.{Asked, AsksDefine, asked_by, seen}
use Rattle.cm_tool.specs.declared.ahead.Defined.{Defined}
use Rattle.cm_tool.specs.Ahead.{IsClassOf, Defines}

pub asks : (request : Option Line) (l : Line) (asked : Option Asked)
    → option_map seen request ≡ asked → request ≡ Some l → Some (seen l) ≡ asked
asks request l asked says is = ap (option_map seen) (sym is) ∙ says

pub asks_nothing : (request : Option Line) (asked : Option Asked)
    → option_map seen request ≡ asked → request ≡ None → None ≡ asked
asks_nothing request asked says is = ap (option_map seen) (sym is) ∙ says

-- what was prepared by a line's words is what the line defines
pub defines : (text loader digits : List ℕ) (known : Option Defined)
    → Some (AsksDefine loader digits) ≡ asked_by text
    → IfSome known (λ d. (d.loader.items ≡ loader) × IsClassOf (decode_of digits) d.class)
    → IfSome known (Defines text)
defines text loader digits None asked is = tt
defines text loader digits (Some d) asked is = record {
  digits = digits;
  asked = subst (λ l. asked_by text ≡ Some (AsksDefine l digits)) (sym is.0) (sym asked);
  class = is.1;
}
