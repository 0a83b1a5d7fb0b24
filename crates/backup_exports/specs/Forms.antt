-- The answer that names the backup in the struct that C reads.
--   exported_backup b   == the answer, field by field
use Rattle.backup.specs.Backup as backup
use Rattle.backup_exports.specs.declared.Backup.{Backup}

abbrev pub exported_backup : backup.Backup → Backup
exported_backup b = record { number = b.number; family = b.family; address = b.address }
