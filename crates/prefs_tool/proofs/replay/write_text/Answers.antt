-- Where the writing stopped, the sink took a prefix of the text.
use Rattle.prefs_tool.proofs.replay.write_text.Goals as goal

pub returns-in-Err-WriteFault : goal.returns-in-Err-WriteFault
returns-in-Err-WriteFault g c =
    let faults = rw c.in-Err-WriteFault.field-0-is at c.in-Err-WriteFault.ensures.faults in
    record { rose = faults.cause; gained = c.in-Err-WriteFault.ensures.taken }

pub returns-in-Err-NoMemory : goal.returns-in-Err-NoMemory
returns-in-Err-NoMemory g c =
    let faults = rw c.in-Err-NoMemory.field-0-is at c.in-Err-NoMemory.ensures.faults in
    record { sound = faults.kept; gained = c.in-Err-NoMemory.ensures.taken }
