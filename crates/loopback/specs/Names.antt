-- The registers by their names.
use Rattle.terms.specs.declared.register.Register.{Register}
use Rattle.terms.specs.declared.register.Register.TheVariants.{Interrupt, Control, Auxiliary, Data}
use Rattle.loopback.specs.declared.names.Name.{Name}
use Rattle.loopback.specs.declared.names.Name.TheVariants.{Isr, Ier, Csr, Cr, Fr, Rdr, Tdr}

-- the register address at which each is reached
abbrev pub address_of : Name → Register
address_of Isr = Interrupt
address_of Ier = Interrupt
address_of Csr = Control
address_of Cr = Control
address_of Fr = Control
address_of Rdr = Data
address_of Tdr = Data

-- what a read at a register address reaches; there is nothing to read at the auxiliary one
abbrev pub read_name : Register → Name
read_name Interrupt = Isr
read_name Control = Csr
read_name Auxiliary = Rdr
read_name Data = Rdr
