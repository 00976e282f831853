-- The numbers of the causes for which a text is no script.
use Rattle.std.specs.Prelude.{ℕ}
use Rattle.script_words.specs.declared.refusal.ScriptRefusal.{ScriptRefusal}
use Rattle.script_words.specs.declared.refusal.ScriptRefusal.TheVariants.{BadFirstLine, BadScript, ScriptTooLong}

abbrev pub script_refusal_number : ScriptRefusal → ℕ
script_refusal_number BadFirstLine = 8
script_refusal_number BadScript = 9
script_refusal_number ScriptTooLong = 10
