-- The number of each register address of a channel.
use Rattle.std.specs.Prelude.{ℕ}
use Rattle.terms.specs.declared.register.Register.{Register}
use Rattle.terms.specs.declared.register.Register.TheVariants.{Interrupt, Control, Auxiliary, Data}

abbrev pub register_number : Register → ℕ
register_number Interrupt = 0
register_number Control = 1
register_number Auxiliary = 2
register_number Data = 3
