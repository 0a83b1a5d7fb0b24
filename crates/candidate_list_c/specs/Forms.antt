-- The answer that names the backup in the struct that C reads.
--   told_backup b   == what the struct tells, field by field
use Rattle.backup.specs.Backup as backup
use Rattle.candidate_list_c.specs.declared.Backup.{Backup}

abbrev pub told_backup : Backup → backup.Backup
told_backup b = record { number = b.number; family = b.family; address = b.address }
