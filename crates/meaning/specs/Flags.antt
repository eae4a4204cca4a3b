-- Document 01, "Flags and tables at rest": the flags that occur, by their byte, and flags with one bit changed. Written by tools/setters-meaning.py.
use Rattle.std.specs.Prelude.{Bool, true, false}
use Rattle.flags.specs.declared.Named.{Named}

abbrev pub f0 : Named
f0 = record { mutable = false; watching = false; recursed_check = false; recursed = false; dirty = false; pending = false }

abbrev pub f1 : Named
f1 = record { mutable = true; watching = false; recursed_check = false; recursed = false; dirty = false; pending = false }

abbrev pub f2 : Named
f2 = record { mutable = false; watching = true; recursed_check = false; recursed = false; dirty = false; pending = false }

abbrev pub f5 : Named
f5 = record { mutable = true; watching = false; recursed_check = true; recursed = false; dirty = false; pending = false }

abbrev pub f6 : Named
f6 = record { mutable = false; watching = true; recursed_check = true; recursed = false; dirty = false; pending = false }

abbrev pub f17 : Named
f17 = record { mutable = true; watching = false; recursed_check = false; recursed = false; dirty = true; pending = false }

abbrev pub f32 : Named
f32 = record { mutable = false; watching = false; recursed_check = false; recursed = false; dirty = false; pending = true }

abbrev pub f33 : Named
f33 = record { mutable = true; watching = false; recursed_check = false; recursed = false; dirty = false; pending = true }

abbrev pub f48 : Named
f48 = record { mutable = false; watching = false; recursed_check = false; recursed = false; dirty = true; pending = true }

abbrev pub f49 : Named
f49 = record { mutable = true; watching = false; recursed_check = false; recursed = false; dirty = true; pending = true }

abbrev pub with_watching : Named → Bool → Named
with_watching f b = record { mutable = f.mutable; watching = b; recursed_check = f.recursed_check; recursed = f.recursed; dirty = f.dirty; pending = f.pending }

abbrev pub with_dirty : Named → Bool → Named
with_dirty f b = record { mutable = f.mutable; watching = f.watching; recursed_check = f.recursed_check; recursed = f.recursed; dirty = b; pending = f.pending }

abbrev pub with_pending : Named → Bool → Named
with_pending f b = record { mutable = f.mutable; watching = f.watching; recursed_check = f.recursed_check; recursed = f.recursed; dirty = f.dirty; pending = b }
